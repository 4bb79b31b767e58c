-- What a work without threads comes to does not depend on the allocator's type.
use Rattle.std.specs.Prelude.{ℕ, List, Option, Result}
use Rattle.pp_command.specs.declared.work.Work.{Work}
use Rattle.pp_condition.specs.declared.until.Until.{Until}
use Rattle.pp_sim.specs.Program.{IsDone, NeedsNoThreads}
use Rattle.pp_sim.specs.declared.text_fault.TextFault.{TextFault}

pub any_allocator : (Y Z : Type 0) (work : Work) (first : List ℕ) (until : Option Until) (answer : Result (Unit {0}) TextFault) (before after old new : Option (List ℕ))
    → NeedsNoThreads work → IsDone Y work first until answer before after old new → IsDone Z work first until answer before after old new
any_allocator Y Z (Work.Deck profile text) first until answer before after old new alone done = done
any_allocator Y Z (Work.Lint profile) first until answer before after old new alone done = done
any_allocator Y Z (Work.Test profile tested) first until answer before after old new alone done = done
any_allocator Y Z (Work.Threads profile limits) first until answer before after old new alone done = absurd alone
any_allocator Y Z (Work.Check opened) first until answer before after old new alone done = done
