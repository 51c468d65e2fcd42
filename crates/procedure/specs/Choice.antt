-- The choice among the children of a region in the words of request 2026-07, without the fold by which `min_item` is defined. Definitions.
use Rattle.std.specs.Prelude.{ℕ, ◌≤◌, ◌<◌, true, false, ◌≡◌, List}
use Rattle.indices.specs.Columns.{at}
use Rattle.procedure.specs.Graph.{Graph}
use Rattle.procedure.specs.Division.{Division, regions, is_leaf, is_child, height}
use Rattle.procedure.specs.State.{State}
use Rattle.procedure.specs.Queues.{min_item, min_key}
use Rattle.procedure.specs.Procedure.{rewrite_key, process_child, alive}

-- c is one of the regions and a child of r
abbrev pub ChildOf : Division → ℕ → ℕ → Type 0
ChildOf d r c = (c < regions d) × (is_child d r c ≡ true)

-- "The choice among equal keys goes to the region of lower height, then to the lower number": c has the lowest key among the children of r, the lowest height
-- among those with this key, and the lowest number among those with this key and height.
pub record FirstChosen (d : Division) (keys : List ℕ) (r c : ℕ) : Type 0 where
  pub child : ChildOf d r c
  pub lowest_key : (b : ℕ) → ChildOf d r b → at keys c ≤ at keys b
  pub lowest_height : (b : ℕ) → ChildOf d r b → at keys b ≡ at keys c → height d c ≤ height d b
  pub lowest_number : (b : ℕ) → ChildOf d r b → at keys b ≡ at keys c → height d b ≡ height d c → c ≤ b

-- What is claimed of every region r of every division, in every state.
pub record Chooses (g : Graph) (d : Division) (s : State) (r : ℕ) : Type 0 where
  -- `min_item` is this child and no other is; where r has no child it is 0, which is nobody's child
  pub first : (b : ℕ) → ChildOf d r b → FirstChosen d s.queues.keys r (min_item d s.queues.keys r)
  pub only : (c : ℕ) → FirstChosen d s.queues.keys r c → c ≡ min_item d s.queues.keys r
  pub none : ((b : ℕ) → ChildOf d r b → ⊥) → min_item d s.queues.keys r ≡ 0
  -- "The smallest key of a region is the key of its first-chosen item"
  pub smallest : is_leaf d r ≡ false → (c : ℕ) → FirstChosen d s.queues.keys r c → min_key d s.queues r ≡ at s.queues.keys c
  -- "while its smallest key isn't none, an inner region hands the turn to its child": to this one, whose working is `process`
  pub turn : is_leaf d r ≡ false → alive g d r s ≡ true → (process : ℕ → State → State)
      → (c : ℕ) × FirstChosen d s.queues.keys r c × (process_child g d process r s ≡ rewrite_key g d c (process c s))
