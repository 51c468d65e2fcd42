-- The lists by which the new numbers are found, pass by pass: parents, sizes, rises, numbers; and what each pass is given. Definitions.
use Rattle.std.specs.Prelude.{ℕ, ◌+◌, ◌*◌, ◌≤◌, ◌<◌, Bool, cond, ◌&&◌, ◌||◌, ◌≡◌, List, length, ltb, eqb}
use Rattle.indices.specs.Columns.{at}
use Rattle.sheet.specs.Limits.{most_arcs}
use Rattle.sheet.specs.Words.{top}
use Rattle.run_arrays.specs.Rows.{row_leaf}
use Rattle.run_arrays.specs.Sections.{most_regions}
use Rattle.run_arrays.specs.Trees.{ParentsOf}
use Rattle.procedure.specs.Division.{Division, regions, arc_of, is_child}
use Rattle.canonical_form.specs.Numbering.{size, lowest_arc, new_number, sizes_of, rise}
use Rattle.canonical_form.specs.Inner.{Proper}

-- PARENTS AND SIZES

-- the parents of a proper division with few regions
pub record ParentsLaid (d : Division) (parents : List ℕ) : Type 0 where
  pub proper : Proper d
  pub few : regions d ≤ most_regions
  pub column : ParentsOf d parents

-- how many regions each region holds
pub record SizesFound (d : Division) (sizes : List ℕ) : Type 0 where
  pub all : length sizes ≡ regions d
  pub same : (r : ℕ) → r < regions d → at sizes r ≡ size d r

-- a division's parents, and an entry for each size
pub record SizesLent (parents sizes : List ℕ) : Type 0 where
  pub division : Division
  pub laid : ParentsLaid division parents
  pub each_size : length sizes ≡ regions division

-- COUNTING

-- each region has counted itself, and of its children those that are past, each with all that it holds
pub record Counted (d : Division) (past : ℕ → Bool) (counts : List ℕ) : Type 0 where
  pub all : length counts ≡ regions d
  pub same : (q : ℕ) → q < regions d → at counts q ≡ 1 + sizes_of d (λ c. is_child d q c && past c)

-- RISES

-- every region but 0 has its rise
pub record Risen (d : Division) (rises : List ℕ) : Type 0 where
  pub all : length rises ≡ regions d
  pub same : (c : ℕ) → 0 < c → c < regions d → at rises c ≡ rise d c

-- region c had its turn, in the climb from its lowest arc: the climbs from the arcs before a are made, and that from arc a, in which the numbers fall, has
-- passed the regions with a number above r
abbrev pub passed : Division → ℕ → ℕ → ℕ → Bool
passed d a r c = ltb (lowest_arc d c) a || (eqb (lowest_arc d c) a && ltb r c)

-- each region that had its turn has its rise, the others have 0, and region 0 has 1; and each region has counted its children that had their turn
pub record Rising (d : Division) (a r : ℕ) (nexts rises : List ℕ) : Type 0 where
  pub counted : Counted d (passed d a r) nexts
  pub all : length rises ≡ regions d
  pub root : at rises 0 ≡ 1
  pub risen : (c : ℕ) → 0 < c → c < regions d → at rises c ≡ cond (passed d a r c) (rise d c) 0

-- region r is the leaf of arc a
pub record LeafOf (d : Division) (a r : ℕ) : Type 0 where
  pub inside : r < regions d
  pub later : 0 < r
  pub arc : arc_of d r ≡ a
  pub below : a < top

-- WHAT THE CLIMBS ARE GIVEN

-- before the climb from the leaf of arc a: the arcs before a have been climbed from
pub record Ready (d : Division) (a : ℕ) (parents sizes : List ℕ) (leaf : ℕ) (nexts rises : List ℕ) : Type 0 where
  pub laid : ParentsLaid d parents
  pub sized : SizesFound d sizes
  pub leaf_of_lem : LeafOf d a leaf
  pub rising : Rising d a (regions d) nexts rises

-- a division and an arc for which this is so
pub record ToClimb (parents sizes : List ℕ) (leaf : ℕ) (nexts rises : List ℕ) : Type 0 where
  pub division : Division
  pub arc : ℕ
  pub ready : Ready division arc parents sizes leaf nexts rises

-- the rows of the m arcs have their leaves, and every region but 0 holds one of these arcs
pub record Starting (d : Division) (m : ℕ) (parents sizes arcRows : List ℕ) : Type 0 where
  pub laid : ParentsLaid d parents
  pub sized : SizesFound d sizes
  pub few_arcs : m ≤ most_arcs
  pub rows : 4 * m ≤ length arcRows
  pub leaves : (a : ℕ) → a < m → LeafOf d a (row_leaf arcRows a)
  pub arcs : (c : ℕ) → 0 < c → c < regions d → lowest_arc d c < m

-- a division for which this is so, and no region had its turn
pub record ToClimbAll (m : ℕ) (parents sizes arcRows nexts rises : List ℕ) : Type 0 where
  pub division : Division
  pub starting : Starting division m parents sizes arcRows
  pub begun : Rising division 0 (regions division) nexts rises

-- a division for which this is so, with an entry for what each region has counted and for each rise
pub record RisesLent (m : ℕ) (parents sizes arcRows nexts rises : List ℕ) : Type 0 where
  pub division : Division
  pub starting : Starting division m parents sizes arcRows
  pub each_next : length nexts ≡ regions division
  pub each_rise : length rises ≡ regions division

-- NEW NUMBERS

-- a division's parents and rises, which are to be added up
pub record ToAdd (parents rises : List ℕ) : Type 0 where
  pub division : Division
  pub laid : ParentsLaid division parents
  pub risen : Risen division rises

-- the new number of each region
pub record Numbers (d : Division) (numbers : List ℕ) : Type 0 where
  pub all : length numbers ≡ regions d
  pub same : (r : ℕ) → r < regions d → at numbers r ≡ new_number d r
