-- The laws that the search is handed at the needs of this crate, by file.
use Rattle.register_lines.specs.Forms.{forms}
use Rattle.register_lines.specs.Marks.{marks}
use Rattle.register_lines.specs.Counts.{counts}
use Rattle.register_lines.specs.Formed.{formed}
use Rattle.register_lines.specs.Lines.{lines}

pub ruleset lining = (formed, lines)

pub ruleset sectioning = (forms, counts)

pub ruleset marking = marks
