-- Laws: what the lister prints, M4 and M13, by computation.
use Rattle.std.specs.Prelude.{◌≡◌, refl}
use Rattle.layout.specs.Varblocks.{area, corners_row, corners_from}
use Rattle.layout_accepted.specs.laws.Marked.{layout_computes}
use Rattle.text.specs.Text.{digits_of}
use Rattle.lister_job.specs.Job.{count_from}
use Rattle.lister.specs.Texts.{BAD_INPUT, lines_of}
use Rattle.lister.specs.Listing.{text_of}
use Rattle.marked.specs.Lines.{job, lines, strip_job, strip_job_with_column, too_high, strip_lines}

pub five_lines : text_of job ≡ lines
unfolding text_of count_from lines_of digits_of area corners_row corners_from layout_computes
five_lines = refl

pub strip_lines_lem : (text_of strip_job ≡ strip_lines) × (text_of strip_job_with_column ≡ strip_lines)
unfolding text_of count_from lines_of digits_of area corners_row corners_from layout_computes
strip_lines_lem = (refl, refl)

pub too_high_lem : text_of too_high ≡ BAD_INPUT
unfolding text_of count_from
too_high_lem = refl
