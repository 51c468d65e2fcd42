-- What an accepted sheet ensures of its graph, division and spans. Definitions.
use Rattle.std.specs.Prelude.{ℕ, suc, ◌≤◌, ◌<◌, true, false, ◌≡◌, List, length, eqb}
use Rattle.indices.specs.Columns.{at}
use Rattle.indices.specs.Tests.{count}
use Rattle.sheet.specs.Limits.{most_nodes, most_arcs, most_length, most_spans, most_span, most_region_words}
use Rattle.sheet.specs.Inner.{Nesting}
use Rattle.procedure.specs.Graph.{Graph, arcs, tail, head, len}
use Rattle.procedure.specs.Division.{Division, regions, parent, arc_of, is_leaf, leaf_of, height}

-- how many arcs leave node v
abbrev pub out_degree : Graph → ℕ → ℕ
out_degree g v = count (λ a. eqb (tail g a) v) (arcs g)

-- a graph in which at most `most` arcs leave a node
pub record GraphOk (most : ℕ) (g : Graph) : Type 0 where
  pub few_nodes : g.nodes ≤ most_nodes
  pub few_arcs : arcs g ≤ most_arcs
  pub source_in : g.source < g.nodes
  pub heads_all : length g.heads ≡ arcs g
  pub lengths_all : length g.lengths ≡ arcs g
  pub tail_in_lem : (a : ℕ) → a < arcs g → tail g a < g.nodes
  pub head_in : (a : ℕ) → a < arcs g → head g a < g.nodes
  pub short : (a : ℕ) → a < arcs g → len g a ≤ most_length
  pub few_out : (v : ℕ) → out_degree g v ≤ most

-- a division of m arcs: a nesting in which each arc has exactly one leaf
pub record DivisionOk (m : ℕ) (d : Division) : Type 0 where
  pub few_regions : regions d ≤ suc most_region_words
  pub arcs_all : length d.leaf_arcs ≡ regions d
  pub nesting : Nesting (is_leaf d) (parent d) (regions d)
  pub root_inner : is_leaf d 0 ≡ false
  pub leaf_arc_lem : (r : ℕ) → r < regions d → is_leaf d r ≡ true → (arc_of d r < m) × (leaf_of d (arc_of d r) ≡ r)
  pub arc_leaf : (a : ℕ) → a < m → (leaf_of d a < regions d) × (arc_of d (leaf_of d a) ≡ a)

-- the spans of a division: one for each height
pub record SpansOk (d : Division) (spans : List ℕ) : Type 0 where
  pub few : length spans ≤ most_spans
  pub each_height : length spans ≡ height d 0
  pub positive : (i : ℕ) → i < length spans → 0 < at spans i
  pub below : (i : ℕ) → i < length spans → at spans i ≤ most_span

pub record WellFormed (most : ℕ) (g : Graph) (d : Division) (spans : List ℕ) : Type 0 where
  pub graph : GraphOk most g
  pub division : DivisionOk (arcs g) d
  pub attention : SpansOk d spans
