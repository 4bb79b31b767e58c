use Rattle.std.proofs.Common.{◌≡◌, ◌==◌, List, ℕ, ◌∷◌, [], false, length, Some, None, arith, ap, sym, ◌∙◌}
use Rattle.std.specs.Option.{option_and_then}
use Rattle.std.proofs.lemmas.Str.Pattern.{split_parts}
use Rattle.clap.specs.Lexer.{long_of, long_of_rest, name_and_value, strip_byte}
use Rattle.clap.proofs.LexerLemmas.{name_and_value-at, name_and_value-without}
use Rattle.pp_call.proofs.call_word.long_of.Goals as goal

-- behind two hyphens stand a name and its value
parts_of : (word first rest : List ℕ) → Some first ≡ strip_byte 45 word → Some rest ≡ strip_byte 45 first → (length rest == 0) ≡ false → Some (name_and_value rest) ≡ long_of word
parts_of word first [] one two some = absurd cc
parts_of word first (x ∷ xs) one two some = ap (option_and_then long_of_rest) two ∙ ap (λ o. option_and_then long_of_rest (option_and_then (strip_byte 45) o)) one

pub returns-in-Some : goal.returns-in-Some
returns-in-Some c =
    let parts = split_parts 61 c.in_ok-rest.rest.now (Some (c.in-Some.name, c.in-Some.value)) c.in-Some.ensures.cases (omega arith) in
    let here = sym (ap name_and_value parts.0 ∙ name_and_value-at c.in-Some.name.now c.in-Some.value.now parts.1) in
    ap Some here ∙ parts_of c.args.word.now c.in_ok-after_hyphen.field-0.now c.in_ok-rest.rest.now c.in_ok-after_hyphen.ensures c.in_ok-rest.ensures (sym c.if-is_empty.ensures)

pub returns-in-None : goal.returns-in-None
returns-in-None c =
    let lacks = split_parts 61 c.in_ok-rest.rest.now None c.in-None.ensures.cases (omega arith) in
    let here = sym (name_and_value-without c.in_ok-rest.rest.now lacks) in
    ap Some here ∙ parts_of c.args.word.now c.in_ok-after_hyphen.field-0.now c.in_ok-rest.rest.now c.in_ok-after_hyphen.ensures c.in_ok-rest.ensures (sym c.if-is_empty.ensures)
