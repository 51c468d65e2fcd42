-- One priority queue for each inner region, as winner trees in one list: a tree for each region, one after the other. The tree of a region with n children has
-- 2n places, and a place holds a key, a height and a region as one number, its entry. The children stand at the places n to 2n - 1; a place p below n holds the
-- lower of places 2p and 2p + 1; so place 1 holds the first-chosen child and its key. Place 0 of a tree and the places behind the last tree are not read, and
-- nothing is said of them. Definitions.
use Rattle.std.specs.Prelude.{ℕ, min, ◌+◌, ◌*◌, ◌/◌, ◌%◌, ◌≤◌, ◌<◌, Bool, false, ◌&&◌, ◌≡◌, ◌≢◌, List, length, set, ltb}
use Rattle.indices.specs.Columns.{at}
use Rattle.indices.specs.Tests.{count}
use Rattle.procedure.specs.Division.{Division, regions, parent, is_leaf, is_child, height}
use Rattle.procedure.specs.Queues.{min_key}
use Rattle.run_arrays.specs.Rows.{field}
use Rattle.run_arrays.specs.Sections.{most_regions}
use Rattle.run_arrays.specs.Fixed.{RegionHeights}

-- what a step of the height adds to a rank, more than any region's number, and a step of the key to an entry, more than any rank
abbrev pub height_step : ℕ
height_step = 65536

abbrev pub key_step : ℕ
key_step = 4294967296

-- a height and a region's number as one number, and a key and this as one
abbrev pub rank_of : ℕ → ℕ → ℕ
rank_of tall c = tall * height_step + c

abbrev pub entry_of : ℕ → ℕ → ℕ
entry_of key below = key * key_step + below

-- what an entry tells
abbrev pub entry_key : ℕ → ℕ
entry_key e = e / key_step

abbrev pub entry_rank : ℕ → ℕ
entry_rank e = e % key_step

abbrev pub entry_region : ℕ → ℕ
entry_region e = entry_rank e % height_step

-- the rank of region c, which decides among equal keys, and its entry: of two entries, the lower one is chosen first
abbrev pub rank : Division → ℕ → ℕ
rank d c = rank_of (height d c) c

abbrev pub entry : Division → List ℕ → ℕ → ℕ
entry d keys c = entry_of (at keys c) (rank d c)

-- p and q are the two places that decide one place
pub record Siblings (p q : ℕ) : Type 0 where
  pub above : q / 2 ≡ p / 2
  pub other : q ≢ p

module _ (d : Division) where
  -- how many children r has
  unfoldable pub child_count : ℕ → ℕ
  child_count r = count (is_child d r) (regions d)

  -- how many siblings of c have a lower number
  unfoldable pub lower_siblings : ℕ → ℕ
  lower_siblings c = count (is_child d (parent d c)) c

  -- c's parent is below r
  abbrev pub under_below : ℕ → ℕ → Bool
  under_below r c = ltb 0 c && ltb (parent d c) r

  -- where the tree of r begins: the regions below r have two places for each child
  unfoldable pub tree_start : ℕ → ℕ
  tree_start r = 2 * count (under_below r) (regions d)

  -- the place of c in its parent's tree
  unfoldable pub seat : ℕ → ℕ
  seat c = child_count (parent d c) + lower_siblings c

  -- what stands at place p of r's tree
  abbrev pub place : List ℕ → ℕ → ℕ → ℕ
  place winners r p = at winners (tree_start r + p)

  -- place p of r's tree holds the lower of the two places below it
  abbrev pub Wins : List ℕ → ℕ → ℕ → Type 0
  Wins winners r p = place winners r p ≡ min (place winners r (2 * p)) (place winners r (2 * p + 1))

-- winners' is winners once place p of the tree that begins at `start` is decided
abbrev pub Decided : ℕ → ℕ → List ℕ → List ℕ → Type 0
Decided start p winners winners' = winners' ≡ set winners (start + p) (min (at winners (start + 2 * p)) (at winners (start + (2 * p + 1))))

-- k is the smallest key of r, if that is an inner region: the leaves' own keys do not matter
abbrev pub IsMinKey : Division → List ℕ → ℕ → ℕ → Type 0
IsMinKey d keys r k = is_leaf d r ≡ false → (own : List ℕ) (updates : ℕ) → k ≡ min_key d (record { own = own; keys = keys; updates = updates }) r

-- Every region but 0 has a lower parent, and two places for each are few enough to be counted by 16 bits.
pub record Numbered (d : Division) : Type 0 where
  pub root : 0 < regions d
  pub few : 2 * regions d < 65536
  pub lower : (c : ℕ) → 0 < c → c < regions d → parent d c < c

-- The list is the parents column of the division, but for region 0, which has no parent.
pub record ParentsOf (d : Division) (parents : List ℕ) : Type 0 where
  pub numbered : Numbered d
  pub all : length parents ≡ regions d
  pub same : (c : ℕ) → 0 < c → c < regions d → at parents c ≡ parent d c

-- The rows of the regions, as far as parent and number of children go. The list may be longer.
pub record ChildrenCounted (d : Division) (rows : List ℕ) : Type 0 where
  pub numbered : Numbered d
  pub all : 4 * regions d ≤ length rows
  pub parents : (c : ℕ) → 0 < c → c < regions d → field rows c 0 ≡ parent d c
  pub counts : (r : ℕ) → r < regions d → field rows r 1 ≡ child_count d r

-- The rows while they are filled: the last entry is how many siblings have a lower number,
pub record Ranked (d : Division) (rows : List ℕ) : Type 0 where
  pub counted : ChildrenCounted d rows
  pub ranks : (c : ℕ) → 0 < c → c < regions d → field rows c 3 ≡ lower_siblings d c

-- and then the third is where the tree begins.
pub record Started (d : Division) (rows : List ℕ) : Type 0 where
  pub ranked : Ranked d rows
  pub starts : (r : ℕ) → r < regions d → field rows r 2 ≡ tree_start d r

-- The rows of the regions: parent, number of children, where the tree begins, place in the parent's tree.
pub record Planned (d : Division) (rows : List ℕ) : Type 0 where
  pub counted : ChildrenCounted d rows
  pub starts : (r : ℕ) → r < regions d → field rows r 2 ≡ tree_start d r
  pub seats : (c : ℕ) → 0 < c → c < regions d → field rows c 3 ≡ seat d c

-- The rows are planned for the division, and winners has two places for each region.
pub record LaidOut (d : Division) (rows winners : List ℕ) : Type 0 where
  pub planned : Planned d rows
  pub room : 2 * regions d ≤ length winners

-- What the trees are built from: rows and places that are laid out, and the height of each region.
pub record Buildable (d : Division) (rows heights winners : List ℕ) : Type 0 where
  pub laid : LaidOut d rows winners
  pub few : regions d ≤ most_regions
  pub tall : RegionHeights d heights

-- The children are entered: there is a key of 32 bits for each region, and each region but 0 stands with its key and rank at its place in its parent's tree.
pub record Seated (d : Division) (rows keys winners : List ℕ) : Type 0 where
  pub laid : LaidOut d rows winners
  pub keyed : length keys ≡ regions d
  pub fit : (c : ℕ) → at keys c < 4294967296
  pub stands : (c : ℕ) → 0 < c → c < regions d → place d winners (parent d c) (seat d c) ≡ entry d keys c

-- The queues are valid: the children are entered, and every place above them holds what it should.
pub record QueuesOk (d : Division) (rows keys winners : List ℕ) : Type 0 where
  pub seated : Seated d rows keys winners
  pub wins : (r p : ℕ) → 0 < p → p < child_count d r → Wins d winners r p

-- The same of the trees of the regions below n alone.
pub record ValidBelow (d : Division) (rows keys winners : List ℕ) (n : ℕ) : Type 0 where
  pub seated : Seated d rows keys winners
  pub wins : (r p : ℕ) → r < n → 0 < p → p < child_count d r → Wins d winners r p

-- WHAT A CALL ASKS: that some division, and keys, stand behind the rows and the places

-- a region other than 0, whose row has its parent
pub record SomeParent (rows : List ℕ) (c : ℕ) : Type 0 where
  pub division : Division
  pub counted : ChildrenCounted division rows
  pub positive : 0 < c
  pub inside : c < regions division

-- what the trees of so many regions are built from
pub record SomeBuildable (rows heights winners : List ℕ) (count : ℕ) : Type 0 where
  pub division : Division
  pub buildable : Buildable division rows heights winners
  pub all_regions : count ≡ regions division

-- valid queues, and one of the regions
pub record SomeQueue (rows winners : List ℕ) (r : ℕ) : Type 0 where
  pub division : Division
  pub keys : List ℕ
  pub queues : QueuesOk division rows keys winners
  pub inside : r < regions division

-- valid queues, and a region that is an item of one
pub record SomeItem (rows winners : List ℕ) (c : ℕ) : Type 0 where
  pub queue : SomeQueue rows winners c
  pub positive : 0 < c
