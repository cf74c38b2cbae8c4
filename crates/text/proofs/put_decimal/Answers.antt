use Rattle.text.specs.laws.Decimal.{fewest_decimal}
use Rattle.text.specs.Text.{Puts}
use mathlib.Core.List.{List}
use mathlib.Core.Path.{subst}
use mathlib.Core.Path.{◌∙◌}
use Prim.Native.Nat.{ℕ}
use Rattle.text.proofs.put_decimal.Goals as goal

pub returns : goal.returns
returns c =
    let a = c.args in
    let e = c.decimal-k.ensures in
    let t = e.digits ∙ fewest_decimal a.n c.decimal-k.result c.ranges.n.fits e.len in
    subst (λ (s : List ℕ). Puts a.out.now a.at s c.put_bytes.new.out c.put_bytes.result) t c.put_bytes.ensures
