-- How long a route is in the hall of a sheet, and what it is for labels and predecessors to be shortest there (request 2026-08). Definitions.
use Rattle.std.specs.Prelude.{ℕ, ◌+◌, List, [], ◌∷◌}
use Rattle.sheet.specs.Arcs.{head, arc_length, charged}
use Rattle.procedure.specs.OfSheet.{graph_of}
use Rattle.procedure.specs.Routes.{ShortestBy}

-- f of each entry, added up
unfoldable pub sum_over : (ℕ → ℕ) → List ℕ → ℕ
sum_over f [] = 0
sum_over f (x ∷ xs) = f x + sum_over f xs

module _ (b : List ℕ) where
  -- "each node between its ends": where an arc of the route ends and the next one starts
  unfoldable pub between : List ℕ → List ℕ
  between [] = []
  between (a ∷ []) = []
  between (a ∷ next ∷ way) = head b a ∷ between (next ∷ way)

  -- "A route's length is its arcs plus the hold of each node between its ends; the source's own hold is never charged."
  unfoldable pub travel_time : List ℕ → ℕ
  travel_time way = sum_over (arc_length b) way + sum_over (charged b) (between way)

  -- "Shortest means shortest in this sense"
  abbrev pub ShortestFor : List ℕ → List ℕ → Type 0
  ShortestFor = ShortestBy travel_time (graph_of b)
