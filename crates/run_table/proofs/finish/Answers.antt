-- `finish` meets its contract: the rounds leave the state that is defined, and the table is made of it.
use Rattle.run_table.proofs.Stages.{form_fits, finished}
use Rattle.run_table.proofs.finish.Goals as goal

pub run_rounds-requires : goal.run_rounds-requires
run_rounds-requires c =
    let F = c.requires.finishing in
    record { graph = _; division = _; spans = _; current = _; represents = F.represents; small = F.tabled.small }

pub has_ended-ended-requires : goal.has_ended-ended-requires
has_ended-ended-requires c =
    let F = c.requires.finishing in
    let valid = (c.run_rounds.ensures _ _ _ _ F.represents F.tabled.small).queues.held.valid in
    record { division = _; keys = _; queues = valid; inside = valid.seated.laid.planned.counted.numbered.root }

pub write_form-requires : goal.write_form-requires
write_form-requires c =
    let F = c.requires.finishing in
    form_fits F.accepted (c.run_rounds.ensures _ _ _ _ F.represents F.tabled.small) F.tabled F.all F.room F.few

pub returns : goal.returns
returns c b s F =
    let R = c.run_rounds.ensures _ _ _ _ F.represents F.tabled.small in
    finished F.accepted R F.tabled F.all F.few
    (c.has_ended-ended.ensures _ _ _ R.queues.held.valid R.fixed_ok.ok.division.root_inner) c.write_form.ensures
