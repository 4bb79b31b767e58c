use Rattle.std.proofs.Common.{arith}
use Rattle.pp_races.specs.ByFlags.{at}
use Rattle.pp_races.specs.Cursor.{IsCursor, IsFirst}
use Rattle.pp_races.proofs.CursorLemmas.{begun, race_at, race_none, searched_to}
use Rattle.pp_races.proofs.cursor.Cursor.first_race.Goals as goal
use Rattle.pp_races.proofs.cursor.Cursor.first_race.Goals.{After-search-place}

first : (c : After-search-place) → (missed : _) → IsCursor c.args.events.now missed c.args.self.now → IsFirst (at c.args.races.now) c.args.events.now c.args.self.now.from c.search-place.result
first c missed is = grind (arith, begun)

pub returns-then-place-events-clause-kept : goal.returns-then-place-events-clause-kept
returns-then-place-events-clause-kept c = λ missed is.
    rw c.number-number.ensures.number
    (searched_to c.args.events.now missed c.args.self.now is c.args.races.now c.search-place.result (omega (arith, c.number-number.ensures)) (first (goal.at.returns-then-place-events-clause-kept c).After-search-place missed is))

pub returns-then-place-events-clause-race : goal.returns-then-place-events-clause-race
returns-then-place-events-clause-race c = grind (arith, race_at, first, goal.at.returns-then-place-events-clause-race)

pub returns-else-place-events-clause-race : goal.returns-else-place-events-clause-race
returns-else-place-events-clause-race c = λ missed is.
    race_none c.args.events.now missed c.args.self.now is (at c.args.races.now) c.search-place.result (first (goal.at.returns-else-place-events-clause-race c).After-search-place missed is) (omega arith)
