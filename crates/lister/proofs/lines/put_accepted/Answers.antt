use Rattle.text.specs.laws.Text.{puts_then}
use Rattle.lister.proofs.lines.put_accepted.Goals as goal

pub returns : goal.returns
returns c = rw c.requires.4 (puts_then _ _ _ _ _ _ _ _ c.put_bytes-behind_blocks.ensures (puts_then _ _ _ _ _ _ _ _ c.put_number-behind_bw.ensures (puts_then _ _ _ _ _ _ _ _ c.put_number-behind_bh.ensures (puts_then _ _ _ _ _ _ _ _ c.put_varblocks-behind_lines.ensures (puts_then _ _ _ _ _ _ _ _ c.put_bytes-behind_area.ensures c.put_number.ensures)))))
