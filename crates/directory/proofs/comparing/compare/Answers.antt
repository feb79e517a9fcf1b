use Rattle.directory.proofs.Likenesses.{whole}
use Rattle.directory.proofs.Sides.{joint_of}
use Rattle.directory.proofs.comparing.compare.Goals as goal

pub liken_answers-requires : goal.liken_answers-requires
liken_answers-requires g c =
    record {
      left = whole _ (g.F.Meant.lawful _) _ _ _ c.compose_run-composed.ensures.answered;
      right = whole _ (g.G.Meant.lawful _) _ _ _ c.compose_run-beside.ensures.answered;
    }

pub returns : goal.returns
returns g c =
    let l = c.compose_run-composed.ensures in
    let r = c.compose_run-beside.ensures in
    record {
      left = l.answered;
      right = r.answered;
      likeness = c.liken_answers.ensures _ _ l.led r.led;
      law = joint_of _ _ _ _ (g.F.Meant.lawful _) (g.G.Meant.lawful _) l.answered.outcome r.answered.outcome;
    }
