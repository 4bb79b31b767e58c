use Rattle.std.proofs.Common.{◌≡◌, drop, map}
use Rattle.pp_call.specs.CallWords.{given_from}
use Rattle.pp_call.specs.CallWords.Reading.{given}
use Rattle.pp_command.specs.CommandLine.{rule_of_form}
use Rattle.pp_call.proofs.call_words.CallWords.take_words.Given as goal

abbrev pub invariant-loop-place : goal.invariant-loop-place
invariant-loop-place g l = given_from (map rule_of_form l.form.options.now) (given l.self) (map (λ word. word.now) (drop l.place l.words)) ≡ given_from (map rule_of_form l.form.options.now) (given l.fn.self) (map (λ word. word.now) l.words)
