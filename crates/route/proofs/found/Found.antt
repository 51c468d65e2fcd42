-- What the search for a route answers and leaves in the buffer: no route, a buffer that is too short, or the route.
use Prim.Native.Nat.{ℕ, ◌≤◌, ◌<◌}
use mathlib.Core.Path.{◌≡◌, sym, ◌∙◌}
use mathlib.Core.Logic.{◌≢◌}
use mathlib.Core.List.{List}
use borrow.Author.Tests.{eq-eqb, ne_eqb, lt-ltb, le-ltb}
use lib.ListN.{length}
use Rattle.sheet.specs.Words.{top}
use Rattle.sheet.specs.Sections.{node_count}
use Rattle.answer.specs.Answer.{state, route, no_route, refused}
use Rattle.calls.specs.Tables.{label_in}
use Rattle.calls.specs.Routes.{route_to, found_route}
use Rattle.route.specs.Reached.{Reached}

module _ (b table : List ℕ) (node : ℕ) (buffer : List ℕ) where
  -- by the node's label x: no route, a buffer that is too short for n arcs, a route of n arcs
  module _ {x : ℕ} (ex : x ≡ label_in table node) where
    pub found_none : x ≡ top → no_route ≡ found_route b table node buffer
    unfolding found_route
    found_none e = rw (eq-eqb (label_in table node) top (sym ex ∙ e))

    module _ (reached : x ≢ top) {n : ℕ} (all : n ≡ length (route_to b table node)) where
      pub found_short : length buffer < n → refused (state 25) ≡ found_route b table node buffer
      unfolding found_route
      found_short l = rw (← ex, ne_eqb x top reached, ← all, lt-ltb (length buffer) n l)

      pub found_route_lem : n ≤ length buffer → route n ≡ found_route b table node buffer
      unfolding found_route
      found_route_lem l = rw (← ex, ne_eqb x top reached, ← all, le-ltb (length buffer) n l)

-- a node whose word has another label than 'unreached' is reached
pub node_reached : {b table : List ℕ} {v x : ℕ} → v < node_count b → x ≡ label_in table v → x ≢ top → Reached b table v
node_reached l ex n = record { inside = l; labelled = λ e. n (ex ∙ e) }

pub ruleset found_steps = (node_reached, found_none, found_short, found_route_lem)
