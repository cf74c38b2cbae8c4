use Rattle.text.specs.laws.Text.{puts_then}
use Rattle.lister.proofs.lines.put_refused.Goals as goal

pub returns : goal.returns
returns c = (puts_then _ _ _ _ _ _ _ _ c.put_bytes-behind_refused.ensures (puts_then _ _ _ _ _ _ _ _ (rw c.from.ensures at c.put_number-behind_number.ensures) (puts_then _ _ _ _ _ _ _ _ c.put_number-behind_x.ensures c.put_number.ensures)))
