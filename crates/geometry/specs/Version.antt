-- The completed version, which checkpoints count (Linux filesystems/f2fs, checkpoint_ver).
use Rattle.std.specs.Prelude.{ℕ, ◌+◌}

-- the version that is complete after a checkpoint, where this one was before it
abbrev pub next_version : ℕ → ℕ
next_version version = version + 1
