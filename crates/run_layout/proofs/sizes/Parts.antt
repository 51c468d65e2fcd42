-- The sizes of an accepted sheet are within the limits.
use Prim.Native.Nat.{ℕ, ◌+◌, ◌/◌}
use mathlib.Core.Path.{◌≡◌, ap}
use mathlib.Core.List.{List}
use native.Mathlib.Omega.{arith}
use lib.ListN.{length}
use Rattle.sheet.specs.Sections.{node_count, arc_count, span_count, region_words}
use Rattle.judgement.specs.Judgement.{Accepted}
use Rattle.judgement.proofs.Accepted.{few_nodes, few_arcs, few_spans, few_region_words}
use Rattle.run_layout.specs.InUse.{InUse}

-- the sizes of an accepted sheet, where d is its region words
pub in_use : {b : List ℕ} {n m h : ℕ} {d : List ℕ} → Accepted b → n ≡ node_count b → m ≡ arc_count b → h ≡ span_count b → d ≡ region_words b
    → InUse b (record { nodes = n; arcs = m; spans = h; regions = length d / 4 + 1 })
in_use {b} ok en em eh ed = record {
  nodes_all = en;
  arcs_all = em;
  spans_all = eh;
  regions_all = omega (arith, ap length ed);
  few_nodes = omega (arith, few_nodes b ok);
  few_arcs = omega (arith, few_arcs b ok, em);
  few_spans = omega (arith, few_spans b ok, eh);
  few_regions = omega (arith, few_region_words b ok, ap length ed);
}
