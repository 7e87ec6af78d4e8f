-- The blocks that an image's index trees name, each with its owner (Linux filesystems/f2fs, index structure).
use Rattle.std.specs.Prelude.{ℕ, zero, suc, ◌+◌, Bool, false, not, ◌&&◌, ◌||◌, ◌==◌, if◌then◌else◌, List, [], ◌∷◌, ◌++◌, filter, slice_index}
use Rattle.std.specs.List.{flat_map}
use Rattle.geometry.specs.declared.geometry.Geometry.{Geometry}
use Rattle.geometry.specs.declared.owner.Owner.TheVariants.{Node, Data}
use Rattle.geometry.specs.declared.owner.Mark.{Mark}
use Rattle.image.specs.Image.{Image, entry_of, node_of}

-- the data addresses of a node, from a slot on; an entry of 0 names nothing
abbrev pub data_names : ℕ → ℕ → List ℕ → List Mark
data_names nid slot [] = []
data_names nid slot (zero ∷ rest) = data_names nid (slot + 1) rest
data_names nid slot (suc a ∷ rest) = record { address = suc a; owner = Data nid slot } ∷ data_names nid (slot + 1) rest

-- a node's own block
abbrev pub node_name : Image → ℕ → Mark
node_name image nid = record { address = (entry_of image nid).address; owner = Node nid }

-- a node's own block, and its data blocks
abbrev pub own_names : Image → ℕ → List Mark
own_names image nid = node_name image nid ∷ data_names nid 0 (node_of image nid).addresses

-- The level of a place in the tree: 0 for a direct node, and one more than its children's for an indirect one.
abbrev pub class_at : ℕ → ℕ
class_at zero = 1
class_at (suc level) = 2

-- the node number belongs to this inode, and to a node of the class of this place
abbrev pub fits : Image → ℕ → ℕ → ℕ → Bool
fits image inode level nid =
    not ((entry_of image nid).address == 0) && ((entry_of image nid).inode == inode)
    && ((node_of image nid).class == class_at level)

-- what is named by the node at a place and by all below it; one that doesn't fit there names nothing
abbrev pub names_below : Image → ℕ → ℕ → ℕ → List Mark
names_below image inode zero nid = if fits image inode zero nid then own_names image nid else []
names_below image inode (suc level) nid =
    if fits image inode (suc level) nid
    then own_names image nid ++ flat_map (names_below image inode level) (node_of image nid).children
    else []

abbrev pub child : Image → ℕ → ℕ → ℕ
child image nid k = slice_index (node_of image nid).children k

-- the places below an inode, each a level and a node number: two direct nodes, two indirect ones over direct ones, and
-- an indirect one over these
abbrev pub places : Image → ℕ → List (ℕ × ℕ)
places image inode =
    (0, child image inode 0) ∷ (0, child image inode 1) ∷ (1, child image inode 2) ∷ (1, child image inode 3)
    ∷ (2, child image inode 4) ∷ []

-- an inode's block, its data, and what is named below it
abbrev pub walk : Image → ℕ → List Mark
walk image inode = own_names image inode ++ flat_map (λ place. names_below image inode place.0 place.1) (places image inode)

-- 1 to n
abbrev pub up_to : ℕ → List ℕ
up_to zero = []
up_to (suc n) = up_to n ++ suc n ∷ []

abbrev pub is_taken : Image → ℕ → Bool
is_taken image nid = not ((entry_of image nid).address == 0)

-- the inodes of the node address table, in ascending order
abbrev pub inodes : Geometry → Image → List ℕ
inodes geometry image = filter (is_taken image) (up_to geometry.files)

-- the walks of all inodes, one after the other
abbrev pub names : Geometry → Image → List Mark
names geometry image = flat_map (walk image) (inodes geometry image)

-- the node numbers that stand at a place where they don't fit
abbrev pub misfits_below : Image → ℕ → ℕ → ℕ → List ℕ
misfits_below image inode level zero = []
misfits_below image inode zero (suc k) = if fits image inode zero (suc k) then [] else suc k ∷ []
misfits_below image inode (suc level) (suc k) =
    if fits image inode (suc level) (suc k)
    then flat_map (misfits_below image inode level) (node_of image (suc k)).children
    else suc k ∷ []

abbrev pub misfits : Image → ℕ → List ℕ
misfits image inode = flat_map (λ place. misfits_below image inode place.0 place.1) (places image inode)

-- whether some name has this address
abbrev pub has_address : ℕ → List Mark → Bool
has_address a [] = false
has_address a (n ∷ ns) = (n.address == a) || has_address a ns
