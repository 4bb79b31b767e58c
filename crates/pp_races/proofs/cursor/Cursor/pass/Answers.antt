use Rattle.pp_races.specs.ByFlags.{at}
use Rattle.pp_races.proofs.CursorLemmas.{passed}
use Rattle.pp_races.proofs.cursor.Cursor.pass.Goals as goal

pub returns : goal.returns
returns c = λ missed is. passed c.args.events.now missed c.args.self.now is (at c.args.alike.now) _ c.search-self.ensures
