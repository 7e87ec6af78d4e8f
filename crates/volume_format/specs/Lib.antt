pub mod Mountable
