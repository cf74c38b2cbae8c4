use Rattle.text.specs.Text.{decimal}
use Rattle.text.specs.laws.Text.{puts_then}
use Rattle.text.proofs.put_number.Goals as goal

pub returns : goal.returns
returns c =
    let a = c.args in
    let n = c.put_decimal-to in
    let b = c.put_byte in
    puts_then a.out.now n.new.out b.new.out (decimal a.n) _ a.at n.result b.result n.ensures b.ensures
