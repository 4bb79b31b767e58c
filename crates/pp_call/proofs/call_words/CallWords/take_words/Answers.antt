use Rattle.std.proofs.Common.{map}
use Rattle.pp_call.specs.CallWords.{given_from, whole, with_given, with_word}
use Rattle.pp_call.specs.CallWords.Reading.{given}
use Rattle.pp_command.specs.CommandLine.{rule_of_form}
use Rattle.pp_call.proofs.CallLemmas.{asking_word, refused_alike, refused_word}
use Rattle.pp_call.proofs.call_words.CallWords.take_words.Goals as goal

pub returns-in-Err-clause-refused : goal.returns-in-Err-clause-refused
returns-in-Err-clause-refused g c =
    let options = map rule_of_form c.args.help.now.form.now.options.now in
    let words = map (λ word. word.now) c.args.words.now in
    refused_alike (with_word options _ c.loop-place.self) (with_given (whole options) (given_from options (given c.args.self.now) words)) c.in-Err.fault
    (λ asks. asking_word options c.args.words.now c.loop-place.place _ c.args.self.now c.loop-place.self c.loop-place-test.true asks c.loop-place.invariant)
    (λ none. refused_word options c.args.words.now c.loop-place.place _ c.args.self.now c.loop-place.self c.loop-place-test.true none c.loop-place.invariant)
    c.in-Err.ensures.refused
