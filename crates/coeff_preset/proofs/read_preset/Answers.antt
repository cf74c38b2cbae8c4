use Rattle.coeff_preset.specs.laws.PresetLaws.{preset_above}
use Rattle.std.proofs.Common.{arith}
use Rattle.coeff_preset.proofs.read_preset.Goals as goal

pub returns-then-presets-v : goal.returns-then-presets-v
returns-then-presets-v c =
    let a = c.args in
    let e = c.exponent-n in
    let s = c.start in
    let k = c.read_bits in
    preset_above a.bytes.now a.presets e.result s.result k.result (omega arith) e.ensures s.ensures k.ensures _ _ c.in-Ok.is c.if-presets-v.true
