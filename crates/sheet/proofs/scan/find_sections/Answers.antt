-- `find_sections` meets its contract: each section begins where the one before it ends.
use mathlib.Core.Path.{◌≡◌, ap}
use native.Mathlib.Omega.{arith}
use Rattle.sheet.specs.Sections.{kind_from, holds_at, arcs_from, arcs_at}
use Rattle.sheet.proofs.Bounds.{kind_le}
use Rattle.sheet.proofs.scan.find_sections.Goals as goal

pub past_kind-arcs-requires : goal.past_kind-arcs-requires
past_kind-arcs-requires c = omega (arith, kind_le 3 c.args.s.now 2)

pub past_arcs-regions-requires : goal.past_arcs-regions-requires
past_arcs-regions-requires c =
    -- the arcs begin where the holds end
    let arcs-begin : c.past_kind-arcs.result.place ≡ arcs_at c.args.s.now =
    let holds = c.past_kind-holds.ensures in omega (arith, holds, c.past_kind-arcs.ensures, ap (kind_from 13 c.args.s.now) holds) in
    omega (arith, arcs-begin, kind_le 3 c.args.s.now 2, kind_le 13 c.args.s.now (holds_at c.args.s.now))

-- all sections are where the calls have said
pub returns : goal.returns
returns c =
    -- the arcs begin where the holds end
    let arcs-begin : c.past_kind-arcs.result.place ≡ arcs_at c.args.s.now =
    let holds = c.past_kind-holds.ensures in omega (arith, holds, c.past_kind-arcs.ensures, ap (kind_from 13 c.args.s.now) holds) in
    let s = c.args.s.now in
    let count = ap (arcs_from s) arcs-begin in
    record {
      front = c.requires;
      spans_all = omega (arith, c.past_kind-holds.ensures);
      arcs_from_lem = arcs-begin;
      arcs_all = omega (arith, c.past_arcs-regions.ensures, count);
      regions_from = omega (arith, c.past_arcs-regions.ensures, arcs-begin, count);
    }
