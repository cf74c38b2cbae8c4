-- Laws: What the laws ask of a size, and that each of the 13 is one.
use Rattle.std.specs.Prelude.{◌%◌, Bool, ◌&&◌, ◌==◌, nat_le}
use Rattle.order_natural.specs.Places.{Place}

abbrev pub right : Place → Bool
right s = s.1 % 8 == 0 && (s.0 % s.1 == 0 && (nat_le 1 s.1 && nat_le 1 s.0))
