use Rattle.laws.specs.laws.Cases.{above}
use Rattle.dct_select.specs.laws.LookUp.{none_at}
use Rattle.dct_select.proofs.TransformTypeTryFromU32.try_from.Goals as goal

pub returns-in_default : goal.returns-in_default
returns-in_default c = rw (none_at c.args.number (above 27 c.args.number c.in_default.in_default-own.rest))
