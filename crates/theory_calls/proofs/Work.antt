-- What else is known of the work of a run (request 2026-03). Where all spans are 1, a round works the leaf of the smallest key. No ended run has worked fewer
-- leaves than there are arcs with a reached tail, and two sheets of one hall have the same number of these; so no division and spans of a hall do with fewer
-- leaves than spans of 1, or than all leaves on region 0.
use Prim.Native.Nat.{ℕ, suc, ◌≤◌, ◌<◌}
use mathlib.Core.Bool.{true, false}
use mathlib.Core.Path.{◌≡◌, sym, ap, ◌∙◌}
use mathlib.Core.Logic.{◌≢◌, ◌⊎◌, ⊎_elim}
use mathlib.Core.List.{List}
use native.Mathlib.Omega.{arith}
use Rattle.judgement.specs.Judgement.{Accepted}
use Rattle.procedure.specs.Graph.{Graph}
use Rattle.procedure.specs.OfSheet.{graph_of, division_of}
use Rattle.sheet.specs.Sections.{node_count}
use Rattle.theory_shortest.specs.Work.{reached_tails}
use Rattle.theory.specs.Work.{WorksLeast}
use Rattle.theory.proofs.SpansOne.{rounds_work_least, rounds_differ}
use Rattle.theory.proofs.AtLeast.{no_fewer_leaves}
use Rattle.calls.specs.Tables.{status_in, rounds_in, leaves_in, labels_in}
use Rattle.calls.specs.Work.{all_spans_one, leaves_on_root, reached_arcs}
use Rattle.calls.specs.Runs.{state_after, ended_after, Delivered}
use Rattle.calls.specs.Halls.{hall_words}
use Rattle.calls.proofs.Outcome.{status_ended}
use Rattle.calls.proofs.Work.{each_span_one, reached_tails_lem, leaves_shown, reached_shown}
use Rattle.theory_calls.proofs.Delivered.{well}
use Rattle.theory_calls.proofs.Halls.{same_graph}
use Rattle.theory_calls.proofs.Agree.{same_distances}

-- round k + 1 works one leaf, which has the smallest key of all
abbrev pub RoundWorks : List ℕ → ℕ → Type 0
RoundWorks b k = WorksLeast (graph_of b) (division_of b) (suc (state_after b k).rounds) (state_after b k) (state_after b (suc k))

-- A ROUND of a sheet with all spans 1 does
module _ (b : List ℕ) (ok : Accepted b) (one : all_spans_one b ≡ true) where
  pub spans_one_round : (k : ℕ) → ended_after b k ≡ false → RoundWorks b k
  spans_one_round = rounds_work_least (well b ok) (each_span_one b ok one)

  -- and two rounds work two leaves
  pub spans_one_differ : (k m : ℕ) → k < m → (w : RoundWorks b k) (w' : RoundWorks b m) → w.region ≢ w'.region
  spans_one_differ = rounds_differ (well b ok) (each_span_one b ok one)

-- A TABLE left as ended, whatever the division and spans
module _ (b : List ℕ) (ok : Accepted b) {k : ℕ} {table : List ℕ} (D : Delivered b k table) (e : status_in table ≡ 1) where
  -- no fewer leaves were worked than there are arcs whose tail is reached
  pub no_fewer : reached_arcs b table ≤ leaves_in table
  no_fewer =
      let s = state_after b k in
      omega (
        arith,
        no_fewer_leaves (well b ok) k (status_ended (ended_after b k) (sym D.status ∙ e)),
        reached_shown b ok table s D.halves D.labels D.bounded,
        leaves_shown b ok table s D.halves D.labels D.bounded,
      )

-- TWO TABLES of one hall
module _ (b b' : List ℕ) (ok : Accepted b) (ok' : Accepted b') (same : hall_words b ≡ hall_words b') {k k' : ℕ} {table table' : List ℕ}
    (D : Delivered b k table) (D' : Delivered b' k' table') (e : status_in table ≡ 1) (e' : status_in table' ≡ 1) where
  -- as many arcs have a reached tail in the one as in the other
  pub same_reached_arcs : reached_arcs b table ≡ reached_arcs b' table'
  same_reached_arcs =
      reached_tails_lem b ok table D.bounded
      ∙ ap (λ (g : Graph). reached_tails g (labels_in (node_count b) table)) (same_graph b b' ok ok' same)
      ∙ ap (reached_tails (graph_of b')) (same_distances b b' ok ok' same table table' (D.shortest e) (D'.shortest e'))
      ∙ sym (reached_tails_lem b' ok' table' D'.bounded)

  -- two sheets with all spans 1 have the same rounds and leaves, whatever their divisions
  pub same_spans_one_work : all_spans_one b ≡ true → all_spans_one b' ≡ true → (rounds_in table ≡ rounds_in table') × (leaves_in table ≡ leaves_in table')
  same_spans_one_work one one' = (
    D.work.spans_one_rounds e one ∙ same_reached_arcs ∙ sym (D'.work.spans_one_rounds e' one'),
    D.work.spans_one_leaves e one ∙ same_reached_arcs ∙ sym (D'.work.spans_one_leaves e' one'),
  )

  -- no other sheet has fewer leaves than one with all spans 1, or with every leaf on region 0
  pub least_leaves : (all_spans_one b ≡ true) ⊎ (leaves_on_root b ≡ true) → leaves_in table ≤ leaves_in table'
  least_leaves kind =
      let here : leaves_in table ≡ reached_arcs b table = ⊎_elim (λ one. D.work.spans_one_leaves e one) (λ on. D.work.on_root_leaves e on) kind in
      omega (arith, same_reached_arcs, no_fewer b' ok' D' e')
