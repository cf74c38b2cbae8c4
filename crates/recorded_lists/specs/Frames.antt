-- Records up to the end of the list: the call, the body's size, the body (RECORD.md).
use Rattle.std.specs.Prelude.{cond, Option, Some, None, Result, Ok, Err, List, ℕ, ◌+◌, eqb, leb, length, get_or}
use Rattle.recorded_lists.specs.declared.frame.Frame.{Frame}
use Rattle.recorded_lists.specs.declared.frame.Malformed.{Malformed}

unfoldable pub frame_of : List ℕ → ℕ → Result (Option Frame) Malformed
frame_of w at =
    cond (eqb at (length w)) (Ok None)
    (cond (leb (at + 2 + get_or w (at + 1) 0) (length w))
    (Ok (Some (record { call = get_or w at 0; start = at + 2; end = at + 2 + get_or w (at + 1) 0 })))
    (Err (record {})))
