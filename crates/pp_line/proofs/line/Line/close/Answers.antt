use Rattle.std.proofs.Common.{rules, ℕ, List, [], ◌∷◌, ◌++◌, sym, ap, ◌∙◌, subst}
use Rattle.std.proofs.lemmas.List.{append-nil}
use Rattle.pp_line.specs.Types.{Entry, Event, LineView}
use Rattle.pp_line.specs.Merge.{IsRecordedBy}
use Rattle.pp_line.specs.LineState.{LineState, AreClosed, AreInOneOrder}
use Rattle.pp_line.specs.LineSteps.{IsLogOf}
use Rattle.pp_line.specs.LineView.{Knows}
use Rattle.pp_line.specs.declared.line.Line.TheInside.{Inside}
use Rattle.pp_line.proofs.LineKeeping.{log_of_same}
use Rattle.pp_line.proofs.LineKnowledge.{knows_by_log}
use Rattle.pp_line.proofs.LineAnswers.{told_whole, closed_by}
use Rattle.pp_line.proofs.JoinedLines.{lines_in_order}
use Rattle.std.proofs.lemmas.List.Elements.{All-cons, All-nil}
use Rattle.pp_line.proofs.line.Line.close.Goals as goal

-- a log, and no others
alone : (seen : List ℕ) (histories : List (List Event)) (log : List Entry) → IsRecordedBy log seen histories → IsRecordedBy (log ++ []) seen histories
alone seen histories log told = subst (λ (l : List Entry). IsRecordedBy l seen histories) (sym (append-nil log)) told

pub recorded_channels-requires : goal.recorded_channels-requires
recorded_channels-requires g c =
    let tells = c.check_shares.ensures.tells.1 in
    let all = ap (λ (line : LineState). line.view.shares) c.self.view_is ∙ (c.requires ∙ sym (ap (λ (line : LineState). line.view.whole) c.self.view_is)) in
    let told = told_whole c.self.invariant.3 tells all in
    (search rules, (tells.histories, alone _ tells.histories _ (rw (c.as_slice.ensures.value ∙ ap (λ (l : Inside g.row.A.Denot). l.log.entries) c.line-inside.view_is, ap (λ (l : Inside g.row.A.Denot). l.seen) c.line-inside.view_is ∙ c.self.invariant.0) told)))

pub invariant_of-self : goal.invariant_of-self
invariant_of-self g c =
    let view = c.check_shares.ensures.view in (
      c.self.invariant.0 ∙ ap (λ (v : LineView). v.seen) (sym view),
      c.self.invariant.1 ∙ ap (λ (v : LineView). v.shares) (sym view),
      c.self.invariant.2 ∙ ap (λ (v : LineView). v.whole) (sym view),
      log_of_same _ c.self.invariant.3 (ap (λ (v : LineView). v.events) view) (ap (λ (v : LineView). v.found) view) (ap (λ (v : LineView). v.seen) view) (ap (λ (v : LineView). v.program_orders) view),
    )

pub returns-in-Ok : goal.returns-in-Ok
returns-in-Ok g c =
    let tells = c.check_shares.ensures.tells.1 in
    let all = ap (λ (line : LineState). line.view.shares) c.self.view_is ∙ (c.requires ∙ sym (ap (λ (line : LineState). line.view.whole) c.self.view_is)) in
    let known = subst (λ (line : LineState). Knows line.view line.log.entries tells.histories) c.self.view_is (knows_by_log c.self.invariant.3 tells.known) in
    let same = (c.in-Ok.ensures) tells.histories (alone _ tells.histories _ (rw (c.as_slice.ensures.value ∙ ap (λ (l : Inside g.row.A.Denot). l.log.entries) c.line-inside.view_is, ap (λ (l : Inside g.row.A.Denot). l.seen) c.line-inside.view_is ∙ c.self.invariant.0) (told_whole c.self.invariant.3 tells all))) in
    let program_orders = ap (λ (line : LineState). line.view.program_orders) c.self.view_is ∙ sym (append-nil c.args.self.view.program_orders) in
    let log_of = subst (λ (line : LineState). IsLogOf line.view line.log.entries) c.self.view_is c.self.invariant.3 in record {
      ok = subst (λ (hs : List (List Event)). AreClosed c.args.self hs) (sym same) (closed_by c.args.self tells.histories known c.requires);
      order =
          subst (λ (hs : List (List Event)). AreInOneOrder c.args.self.view.central hs (c.args.self ∷ [])) (sym same)
          (lines_in_order (c.args.self ∷ []) tells program_orders c.args.self.view.central (ap (λ (line : LineState). line.view.central) c.self.view_is) (ap (λ (line : LineState). line.view.written) c.self.view_is ∙ sym (append-nil c.args.self.view.written)) all (All-cons (λ (l : LineState). IsLogOf l.view l.log.entries) c.args.self [] log_of (All-nil (λ (l : LineState). IsLogOf l.view l.log.entries))));
      unchanged_after_memory = tt;
    }
