use Rattle.std.proofs.Common.{◌≡◌, drop, map}
use Rattle.pp_call.specs.CallWords.{has_required}
use Rattle.pp_command.specs.CommandLine.{rule_of_form}
use Rattle.pp_call.proofs.call_words.CallWords.is_whole.Given as goal

abbrev pub invariant-loop-option : goal.invariant-loop-option
invariant-loop-option g l = has_required (map rule_of_form (drop l.option-index l.options)) l.self.values ≡ has_required (map rule_of_form l.options) l.self.values
