use Rattle.std.proofs.Common.{◌≡◌, drop, map}
use Rattle.pp_call.specs.CallWords.{option_named}
use Rattle.pp_command.specs.CommandLine.{rule_of_form}
use Rattle.pp_call.proofs.call_words.option_named.Given as goal

abbrev pub invariant-loop-option : goal.invariant-loop-option
invariant-loop-option l = option_named (map rule_of_form (drop l.option-index l.options)) l.name ≡ option_named (map rule_of_form l.options) l.name
