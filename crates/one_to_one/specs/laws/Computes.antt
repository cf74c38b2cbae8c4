-- What examples open to be computed: a proof that says `unfolding items_compute` opens all that its line names.
use Rattle.std.specs.Prelude.{Bool, true}
use Rattle.bits.specs.Bits.{read_bits, read_u32, bits_of, value_of}
use Rattle.coded_numbers.specs.Exponent.{exponent_from}
use Rattle.coded_numbers.specs.Signed.{unpack_signed, pack, symbol}
use Rattle.dct_select.specs.Transforms.{TRANSFORMS, wide, high, order_of, turns}
use Rattle.order_natural.specs.Places.{paired}
use Rattle.order_natural.specs.Natural.{natural}
use Rattle.layout.specs.RowByRow.{along_row, rows}
use Rattle.layout.specs.Varblocks.{corners_row, corners_from}
use Rattle.laws.specs.Lists.{fill_from}
use Rattle.layout.specs.Grid.{row_of, grid_from}
use Rattle.layout.specs.Cut.{cut, group_xy}
use Rattle.layout.specs.Check.{clear, fitting, visit_cell, check_run}
use Rattle.layout_sizes.specs.Blocks.{bw_in, bh_in}
use Rattle.lent_sides.specs.Limits.{in_limits, lengths_fit}
use Rattle.lent_cut.specs.Calls.{cut_check}
use Rattle.context_index.specs.Contexts.{lf_size_of, above, lf_index_in, entry_of}
use Rattle.context_call.specs.Call.{contexts_of}
use Rattle.coeff_context.specs.Context.{coeff_context, FREQ, NUM_NONZERO}
use Rattle.coeff_walk.specs.Walk.{walk}
use Rattle.coeff_walk.specs.Places.{cells_of}
use Rattle.coeff_walk.specs.Item.{counted}
use Rattle.coeff_group.specs.Group.{read_item, read_items}
use Rattle.coeff_group.specs.PassGroup.{item_of, items_of}
use Rattle.one_to_one.specs.Filling.{is_low, wanted}
use Rattle.coeff_group.specs.Sequence.{the_sequence}
use Rattle.coeff_walk.specs.Sent.{non_zeros, up_to, sent}

unfoldable pub cut_computes : Bool
unfolding cut_check in_limits lengths_fit bw_in bh_in group_xy check_run rows along_row visit_cell fitting clear wide high TRANSFORMS fill_from cut grid_from row_of
cut_computes = true

unfoldable pub bits_compute : Bool
unfolding read_u32 read_bits bits_of value_of exponent_from
bits_compute = true

unfoldable pub items_compute : Bool
unfolding items_of item_of cells_of paired natural corners_row corners_from order_of turns wide high TRANSFORMS
items_compute = true

unfoldable pub reading_computes : Bool
unfolding items_compute read_items read_item counted fill_from walk coeff_context FREQ NUM_NONZERO unpack_signed contexts_of lf_size_of above lf_index_in entry_of
reading_computes = true

unfoldable pub sequence_computes : Bool
unfolding items_compute the_sequence sent non_zeros up_to symbol pack
sequence_computes = true

unfoldable pub wanted_computes : Bool
unfolding wanted is_low grid_from row_of corners_row corners_from wide high TRANSFORMS
wanted_computes = true
