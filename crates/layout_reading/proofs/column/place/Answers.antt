use Rattle.std.proofs.Common.{rules, ◌≡◌, arith}
use Rattle.layout_filter.specs.laws.Finite.{DividedBounded}
use Rattle.layout_filter.specs.Strength.{divided_by}
use Rattle.layout_filter.proofs.laws.Finite.{divided_bounded}
use Rattle.layout_reading.specs.laws.Outcome.{state_of}
use Rattle.layout_reading.proofs.laws.Mapped.{mapped_ok, mapped_err}
use Rattle.layout_reading.proofs.laws.Places.{place_left, place_taken}
use Rattle.layout_reading.proofs.column.place.Goals.{After-map-divided}
use Rattle.layout_reading.proofs.column.place.Goals as goal

-- the filter's multiplier is that of the varblock
divided : (c : After-map-divided) → c.map-divided.result ≡ divided_by c.args.job.now.filter c.args.v.hf_mul
unfolding divided_by
divided c = search rules

pub scan-requires : goal.scan-requires
scan-requires c =
    let a = c.args in
    let J = a.job.now in
    let h = c.requires in
    let w : DividedBounded c.map-divided.result J.lookups.now = rw (divided (goal.at.scan-requires c).After-map-divided) (divided_bounded J.filter J.lookups.now a.v.hf_mul h.6 (omega arith) J.bounded) in
    (h.0.0, h.0.2, omega arith, omega arith, h.1, h.2, w)

pub returns-in_err-map_err : goal.returns-in_err-map_err
returns-in_err-map_err c =
    let a = c.args in
    let g = mapped_err c.scan.result c.map_err.result _ c.map_err.ensures.cases _ c.in_err-map_err.was in
    rw (← place_left a.job.now.bw a.job.now.bh a.job.now.filter a.job.now.lookups.now a.job.now.sharpness.now a.v.kind a.v.hf_mul a.v.wide a.v.high a.x a.y (state_of a.used a.kinds.now a.hf_mul.now a.sigma.now)
    c.scan.result c.map-divided.result c.scan.new.kinds c.scan.new.sigma (divided (goal.at.returns-in_err-map_err c).After-map-divided) c.scan.ensures g.0 g.1 a.hf_mul.now) (search rules)

pub returns : goal.returns
returns c =
    let a = c.args in
    place_taken a.job.now.bw a.job.now.bh a.job.now.filter a.job.now.lookups.now a.job.now.sharpness.now a.v.kind a.v.hf_mul a.v.wide a.v.high a.x a.y (state_of a.used a.kinds.now a.hf_mul.now a.sigma.now)
    c.scan.result c.map-divided.result c.scan.new.kinds c.scan.new.sigma (divided (goal.at.returns c).After-map-divided) c.scan.ensures _ (mapped_ok c.scan.result c.map_err.result _ c.map_err.ensures.cases _ c.in_ok-map_err.was)
