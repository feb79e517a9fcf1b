use Rattle.train.proofs.Turns.{turned_twice, turned_joined}
use Rattle.train.proofs.turning.turning_laws.Goals as goal

pub returns : goal.returns
returns g c = record {
  twice = turned_twice g.T.Turn.turned g.met.T.Turn.twice;
  joined = turned_joined g.T.Turn.turned;
}
