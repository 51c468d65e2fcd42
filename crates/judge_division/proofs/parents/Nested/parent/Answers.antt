-- `parent` meets its contract: it is that of `parent_of`.
use Rattle.judge_division.proofs.parents.Nested.parent.Goals as goal

pub parent_of-requires : goal.parent_of-requires
parent_of-requires c = record {
  positive = c.requires.0;
  inside = c.requires.1;
  parents = c.args.self.now.passable.parents;
}
