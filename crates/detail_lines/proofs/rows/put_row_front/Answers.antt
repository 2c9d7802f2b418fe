-- `detail_lines::rows::put_row_front` meets its contract: BAE and date, a slash behind each.
use Rattle.put.specs.Writes.{writes_4}
use Rattle.detail_lines.proofs.rows.put_row_front.Goals as goal

pub returns : goal.returns
returns c =
    let bae = rw (c.front.ensures, c.behind.ensures) at c.put_bytes.ensures in
    let date = rw (c.front-2.ensures, c.behind-2.ensures) at c.put_bytes-2.ensures in
    writes_4 bae c.put_byte.ensures date c.put_byte-2.ensures
