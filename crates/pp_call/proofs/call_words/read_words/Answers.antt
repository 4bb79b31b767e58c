use Rattle.std.proofs.Common.{inl, inr, map, rules, subst, sym}
use Rattle.pp_call.specs.CallWords.{IsCallRefused, IsRefusal, reading_of_call, reading_of_words}
use Rattle.pp_call.specs.CallWords.Reading.{given, help, refused}
use Rattle.pp_command.specs.CommandLine.{rule_of_form}
use Rattle.pp_call.proofs.CallLemmas.{called, no_words, refused_alike, uncalled, where_asked, where_refused}
use Rattle.pp_call.proofs.call_words.read_words.Goals as goal

pub returns-in_default-clause-refused : goal.returns-in_default-clause-refused
returns-in_default-clause-refused g c = inl (no_words c.args.words.now (search rules))

pub returns-in_default-command_named-clause-refused : goal.returns-in_default-command_named-clause-refused
returns-in_default-command_named-clause-refused g c =
    inl (subst (λ reading. IsRefusal reading c.without_command.result.0)
    (sym (uncalled c.args.words.now c.in-Some.name.now c.in-Some.more.now c.command_named.result (search rules) c.command_named.ensures c.in_default-command_named.is))
    c.without_command.ensures)

pub returns-in_err-take_words-clause-refused : goal.returns-in_err-take_words-clause-refused
unfolding reading_of_words
returns-in_err-take_words-clause-refused g c =
    let words = map (λ word. word.now) c.args.words.now in
    let found = c.in-Some-command_named.help in
    let refusal = c.in_err-take_words.field-0.0 in
    let why : IsCallRefused words refusal.0 = inl (refused_alike (reading_of_words (map rule_of_form found.form.now.options.now) (map (λ word. word.now) c.in-Some.more.now)) (reading_of_call words) refusal.0
    (λ asks. called c.args.words.now c.in-Some.name.now c.in-Some.more.now c.command_named.result found help c.in-Some.ensures.cases.0 c.command_named.ensures c.in-Some-command_named.is asks)
    (λ none. called c.args.words.now c.in-Some.name.now c.in-Some.more.now c.command_named.result found refused c.in-Some.ensures.cases.0 c.command_named.ensures c.in-Some-command_named.is none)
    (rw c.new.ensures.items at c.in_err-take_words.ensures.refused)) in
    search (rules, why)

pub returns-clause-asked : goal.returns-clause-asked
unfolding reading_of_words
returns-clause-asked g c =
    let found = c.in-Some-command_named.help in
    let values = c.take_words.new.self.values in
    let read = called c.args.words.now c.in-Some.name.now c.in-Some.more.now c.command_named.result found (given values) c.in-Some.ensures.cases.0 c.command_named.ensures c.in-Some-command_named.is (rw c.new.ensures.items at c.in_ok-take_words.ensures.taken) in
    where_asked c.asked_by.result _ _ _ (λ x asked file. record { call = (found.form.now.kind, values); read = read; asked = asked; named = file }) c.asked_by.ensures.asked c.asked_by.ensures.file

pub returns-clause-refused : goal.returns-clause-refused
unfolding reading_of_words
returns-clause-refused g c =
    let found = c.in-Some-command_named.help in
    let values = c.take_words.new.self.values in
    let read = called c.args.words.now c.in-Some.name.now c.in-Some.more.now c.command_named.result found (given values) c.in-Some.ensures.cases.0 c.command_named.ensures c.in-Some-command_named.is (rw c.new.ensures.items at c.in_ok-take_words.ensures.taken) in
    where_refused c.asked_by.result _ _ (λ refusal none. inr (rw read none)) c.asked_by.ensures.refused
