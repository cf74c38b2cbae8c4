use Rattle.coeff_walk.proofs.laws.PlaceLaws.{place_turned, place_straight}
use Rattle.std.proofs.Common.{sym}
use Rattle.coeff_places.proofs.place.cell_of.Goals as goal

pub returns-then-spot : goal.returns-then-spot
returns-then-spot c = rw c.if-spot.true (sym (place_turned c.args.spot.width c.args.spot.x c.args.spot.y c.args.list.now c.args.k c.requires.0))

pub returns : goal.returns
returns c = rw c.if-spot.false (sym (place_straight c.args.spot.width c.args.spot.x c.args.spot.y c.args.list.now c.args.k c.requires.0))
