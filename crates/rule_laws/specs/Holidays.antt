-- A holiday list: its parts are dates, of six bytes each, and there are at most 60.
use Rattle.std.specs.Prelude.{◌≡◌, true, ◌&&◌, List, [], ◌∷◌, ℕ, suc, ◌*◌, ◌≤◌, leb, length}
use Rattle.std.proofs.Math.Option.{some}
use Rattle.std.proofs.Common.{arith, length-append, leb-true}
use Rattle.rules.specs.Text.{every, is_some, read_each, ordered}
use Rattle.rules.specs.Dates.{date}
use Rattle.rules.specs.Lines.{parted}
use Rattle.rules.specs.BankingDays.{earlier_date, holidays}
use Rattle.laws.specs.Tests.{and_left}
use Rattle.laws.specs.Values.{digits_each}
use Rattle.rule_laws.specs.Options.{There, there, Came, came, Gave, gave}
use Rattle.rule_laws.specs.Dates.{date_length, date_digits}
use Rattle.rule_laws.specs.Commas.{in_part, part_digits, PartsRead, PartsRead.one, PartsRead.next, parts_read}

-- ---- a date that is read has no comma

pub date_part : (cs : List ℕ) (d : ℕ) → date cs ≡ some d → every in_part cs ≡ true
date_part cs d h = part_digits cs (digits_each cs 0 d (date_digits cs d h))

-- ---- the dates of a text

-- six bytes for each, and a comma between two
pub dates_length : {cs ds : List ℕ} → PartsRead date cs ds → suc (length cs) ≡ 7 * length ds
dates_length (one cs {v = d} h) = omega (arith, date_length cs d h)
dates_length (next p rest {v = d} h r) = rw length-append (omega (arith, date_length p d h, dates_length r))

-- ---- the longest list

abbrev pub longest_list : ℕ
longest_list = 419

pub list_length : (s : List ℕ) → is_some (holidays s) ≡ true → length s ≤ longest_list
unfolding holidays
list_length [] h = omega arith
list_length (c ∷ cs) h =
    let x : There (holidays (c ∷ cs)) = there _ h in
    let d : Came (read_each date (parted (c ∷ cs))) _ x.value = came _ _ x.is in
    let g : Gave (leb (length d.value) 60 && ordered earlier_date d.value) d.value x.value = gave _ _ d.gives in
    omega (arith, dates_length (parts_read date (c ∷ cs) d.value d.is), leb-true (length d.value) 60 (and_left _ _ g.test))
