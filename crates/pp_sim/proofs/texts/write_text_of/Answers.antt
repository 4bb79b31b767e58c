use Rattle.std.proofs.Common.{◌∙◌, ap, refl}
use Rattle.pp_deck.specs.DeckMeaning.{deck_meaning}
use Rattle.pp_sim.proofs.AnswerLemmas.{answers_written}
use Rattle.pp_sim.proofs.texts.write_text_of.Goals as goal
use Rattle.pp_sim.specs.TextAnswer.{NothingPrevents}
use Rattle.pp_sim.specs.TextOf.{IsListText}

pub returns-in-List : goal.returns-in-List
returns-in-List g c = λ profile bytes meant same.
    rw c.in-List.is (rw c.answer_to.ensures (answers_written profile NothingPrevents IsListText bytes _ c.write_listing.result _ _
    (record {
      deck = _;
      meant = meant;
      is = record {
        text_is = refl;
        reads_back = c.write_listing.ensures.reads_back bytes (ap (λ p. deck_meaning p bytes) same ∙ meant);
      };
    })
    c.write_listing.ensures.written))
