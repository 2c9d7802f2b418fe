-- The laws that the search is handed at the needs of this crate, by file.
use Rattle.register.specs.Turns.{turns}
use Rattle.register.specs.Checks.{checks}
use Rattle.register.specs.Passed.{passed}
use Rattle.register.specs.Searching.{searching}

pub ruleset checking = (turns, checks)

pub ruleset seeking = (turns, passed, searching)
