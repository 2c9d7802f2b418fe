-- `message_text::verdicts::put_part` meets its contract: the part's four groups of rows in their order, by the reference issued for it.
use Rattle.verdict.specs.Details.{kept_in}
use Rattle.detail_lines.specs.Listed.{lines_kept}
use Rattle.message_text.specs.Parts.{part_wrote}
use Rattle.message_text.proofs.verdicts.put_part.Goals as goal

pub put_listed-next-requires-clause-lines_in : goal.put_listed-next-requires-clause-lines_in
put_listed-next-requires-clause-lines_in c = lines_kept _ _ (kept_in _ _ c.args.details.its)

pub returns : goal.returns
returns c = part_wrote _ _ _ _ _ _ _ c.requires.part_from_one c.requires.part_numbered c.put_opened199.ensures c.put_position79.ensures c.put_listed-next.ensures c.put_closed79.ensures
