use borrow.Author.Rules.{rules}
use Rattle.banking_days.specs.Rising.{rises, rise_short, rise_unread, rise_early, rise_last, rise_bad}
use Rattle.banking_days.proofs.list.dates_rise.Goals as goal

pub returns-in_default-read_date : goal.returns-in_default-read_date
returns-in_default-read_date c = rise_unread _ _ _ c.loop-six.invariant _ _ c.in-Some.ensures.cases _ c.read_date.ensures c.in_default-read_date.is

pub returns-then-date-last : goal.returns-then-date-last
returns-then-date-last c = rise_early _ _ _ c.loop-six.invariant _ _ c.in-Some.ensures.cases _ c.read_date.ensures _ c.in-Some-read_date.is c.if-date-last.true

pub returns-in-empty : goal.returns-in-empty
returns-in-empty c = rise_last _ _ _ c.loop-six.invariant _ _ c.in-Some.ensures.cases _ c.read_date.ensures _ c.in-Some-read_date.is c.if-date-last.false c.in-empty.len_below

pub returns-in_default-behind : goal.returns-in_default-behind
returns-in_default-behind c = rise_bad _ _ _ c.loop-six.invariant _ _ c.in-Some.ensures.cases _ c.read_date.ensures _ c.in-Some-read_date.is c.if-date-last.false c.in_default-behind.len_at_least (search rules)

pub loop-six-preserved : goal.loop-six-preserved
loop-six-preserved c = search (rises, rules)

pub returns : goal.returns
returns c = rise_short _ _ _ c.loop-six.invariant c.in_default.ensures.cases
