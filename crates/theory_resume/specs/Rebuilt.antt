-- Queues rebuilt by updates, for the code that resumes a run. Definitions.
use Rattle.std.specs.Prelude.{ℕ, List, ltb, if◌then◌else◌}
use Rattle.indices.specs.Columns.{at}
use Rattle.indices.specs.Steps.{up_to}
use Rattle.sheet.specs.Words.{top}
use Rattle.procedure.specs.Division.{Division}
use Rattle.procedure.specs.State.{Queues}
use Rattle.procedure.specs.Queues.{update_arc}

-- the first n arcs that have a key are updated with it, in arc order
unfoldable pub rebuilt : Division → List ℕ → ℕ → Queues → Queues
rebuilt d own n q = up_to n (λ a q. let updated = update_arc d a (at own a) q in if ltb (at own a) top then updated else q) q
