-- Lines as one, joined in their order.
use Rattle.std.proofs.Common.{◌≡◌, ℕ, List, [], ◌∷◌, ◌++◌, length, refl, sym, ap, ◌∙◌, subst, append_assoc, arith}
use Rattle.std.specs.Prelude.{All}
use Rattle.std.specs.List.{AllZip, flat_map}
use Rattle.std.specs.declared.vec.Vec.{Vec}
use Rattle.std.proofs.lemmas.List.{append-nil, map-append}
use Rattle.std.proofs.lemmas.List.Elements.{All-cons, All-nil, All-push, All-weaker}
use Rattle.std.proofs.lemmas.List.Sums.{fold-append}
use Rattle.pp_line.specs.Types.{Access, Entry, Event, LineView}
use Rattle.pp_numbers.specs.ChannelNo.{channel_index}
use Rattle.pp_line.specs.LineState.{LineState, joined, all_joined, lines_of, IsLogBeside, SeesAtLeast, AreClosed, AreInOneOrder}
use Rattle.pp_line.specs.Order.{ExtendsEach}
use Rattle.pp_line.proofs.ListFacts.{All-front, All-back}
use Rattle.pp_numbers.specs.Subsequence.{IsSubsequence}
use Rattle.pp_line.specs.LineSteps.{IsLogOf, Tells}
use Rattle.pp_line.specs.LineView.{Knows, greater_of_each, joined_view, with_unrecorded_load}
use Rattle.pp_line.specs.Merge.{IsRecordedBy}
use Rattle.pp_line.proofs.LineAnswers.{told_whole, closed_by}
use Rattle.pp_line.proofs.LineKnowledge.{knows_by_log}
use Rattle.pp_line.proofs.LineKeeping.{log_of_same, log_of_joined}
use Rattle.pp_line.proofs.SeenLemmas.{greater_left, greater_right}

-- one line more
pub joined_push : (line : LineState) (others : List LineState) (other : LineState) → all_joined line (others ++ other ∷ []) ≡ joined (all_joined line others) other
joined_push line others other = fold-append joined line others (other ∷ [])

pub joined_whole : (line : LineState) (others : List LineState) → (all_joined line others).view.whole ≡ line.view.whole
joined_whole line [] = refl
joined_whole line (other ∷ others) = joined_whole (joined line other) others

pub joined_central : (line : LineState) (others : List LineState) → (all_joined line others).view.central ≡ line.view.central
joined_central line [] = refl
joined_central line (other ∷ others) = joined_central (joined line other) others

-- what joining puts end to end
joined_parts : {X : Type 0} (f : LineState → List X) → ((line other : LineState) → f (joined line other) ≡ f line ++ f other) → (line : LineState) (others : List LineState) → f (all_joined line others) ≡ f line ++ flat_map f others
joined_parts f parts line [] = sym (append-nil (f line))
joined_parts f parts line (other ∷ others) = grind (arith, append_assoc, joined_parts f parts (joined line other) others)

pub joined_entries : (line : LineState) (others : List LineState) → (all_joined line others).log.entries ≡ line.log.entries ++ flat_map (λ other. other.log.entries) others
joined_entries line others = joined_parts (λ l. l.log.entries) (λ a b. refl) line others

-- logs that are those of lines are the same, end to end
pub same_logs : {T A : Type 0} (pairs : List (T × LineState)) (logs : List (T × Vec Entry A)) → AllZip (λ pair log. IsLogBeside pair log) pairs logs → flat_map (λ log. log.1.items) logs ≡ flat_map (λ l. l.log.entries) (lines_of pairs)
same_logs [] [] all = refl
same_logs [] (log ∷ logs) all = absurd all
same_logs (pair ∷ pairs) [] all = absurd all
same_logs (pair ∷ pairs) (log ∷ logs) all = λ j. all.0.1 j ++ same_logs pairs logs all.1 j

-- what holds of two lists, place by place, holds of one place more
pub zip_push : {X Y : Type 0} (R : X → Y → Type 0) (xs : List X) (ys : List Y) (x : X) (y : Y) → AllZip R xs ys → R x y → AllZip R (xs ++ x ∷ []) (ys ++ y ∷ [])
zip_push R [] [] x y all one = (one, tt)
zip_push R [] (v ∷ ys) x y all one = absurd all
zip_push R (u ∷ xs) [] x y all one = absurd all
zip_push R (u ∷ xs) (v ∷ ys) x y all one = (all.0, zip_push R xs ys x y all.1 one)

each_extended : (order : List Access) (lines : List LineState) → ExtendsEach order (flat_map (λ l. l.view.program_orders) lines) → All (λ l. ExtendsEach order l.view.program_orders) lines
each_extended order [] all = All-nil (λ (l : LineState). ExtendsEach order l.view.program_orders)
each_extended order (line ∷ lines) all =
    let P : List Access → Type 0 = λ t. IsSubsequence t order in
    All-cons (λ (l : LineState). ExtendsEach order l.view.program_orders) line lines (All-front P line.view.program_orders (flat_map (λ l. l.view.program_orders) lines) all)
    (each_extended order lines (All-back P line.view.program_orders (flat_map (λ l. l.view.program_orders) lines) all))

-- lines whose program orders are those of a view that a step tells of are in one order, each with its log
pub lines_in_order : {v : LineView} {c word : ℕ} (lines : List LineState) → (t : Tells v c word) → v.program_orders ≡ flat_map (λ l. l.view.program_orders) lines → (central : List ℕ) → v.central ≡ central → v.written ≡ flat_map (λ l. l.view.written) lines → v.shares ≡ v.whole → All (λ l. IsLogOf l.view l.log.entries) lines → AreInOneOrder central t.histories lines
lines_in_order lines t program_orders central opened written all logs = grind (arith, each_extended)

-- Lines that were joined to a first one: what all know and have seen as one, and their logs.
pub record AreAbsorbed {T A : Type 0} (first : LineState) (pairs : List (T × LineState)) (v : LineView) (seen : List ℕ) (logs : List (T × Vec Entry A)) : Type 0 where
  pub view : v ≡ (all_joined first (lines_of pairs)).view
  pub seen_is : seen ≡ (all_joined first (lines_of pairs)).view.seen
  pub log_of : IsLogOf (all_joined first (lines_of pairs)).view (all_joined first (lines_of pairs)).log.entries
  pub logs_are : AllZip (λ pair log. IsLogBeside pair log) pairs logs
  pub each_log : All (λ l. IsLogOf l.view l.log.entries) (lines_of pairs)
  pub forgotten : All (λ l. SeesAtLeast l (all_joined first (lines_of pairs))) (lines_of pairs)

-- none yet
pub absorbed_none : {T A : Type 0} {first : LineState} {v : LineView} {seen : List ℕ} {logs : List (T × Vec Entry A)} → seen ≡ first.view.seen → v ≡ first.view → IsLogOf first.view first.log.entries → logs ≡ [] → AreAbsorbed first [] v seen logs
absorbed_none {first = first} seen view is none = grind arith

-- one line more
pub absorbed_push : {T A : Type 0} {first : LineState} {pairs : List (T × LineState)} {v w : LineView} {seen now : List ℕ} {logs : List (T × Vec Entry A)} (value : T) (other : LineState) (log : Vec Entry A)
    → AreAbsorbed first pairs v seen logs → IsLogOf other.view other.log.entries → log.items ≡ other.log.entries → w ≡ with_unrecorded_load (joined_view v other.view) → now ≡ greater_of_each seen other.view.seen
    → AreAbsorbed first (pairs ++ (value, other) ∷ []) w now (logs ++ (value, log) ∷ [])
absorbed_push {first = first} {pairs = pairs} {logs = logs} value other log before is log_is view seen_is =
    let lines = lines_of pairs in
    let line = all_joined first lines in
    let lines_more : lines_of (pairs ++ (value, other) ∷ []) ≡ lines ++ other ∷ [] = map-append (λ pair. pair.1) pairs ((value, other) ∷ []) in
    let more : all_joined first (lines_of (pairs ++ (value, other) ∷ [])) ≡ joined line other = ap (all_joined first) lines_more ∙ joined_push first lines other in
    let each : length line.view.seen ≡ length other.view.seen = before.log_of.each_channel ∙ sym is.each_channel in
    record {
      view = view ∙ (ap (λ v. with_unrecorded_load (joined_view v other.view)) before.view ∙ sym (ap (λ l. l.view) more));
      seen_is = seen_is ∙ (ap (λ s. greater_of_each s other.view.seen) before.seen_is ∙ sym (ap (λ l. l.view.seen) more));
      log_of = subst (λ (l : LineState). IsLogOf l.view l.log.entries) (sym more) (log_of_same (joined line other).view (log_of_joined before.log_of is) refl refl refl refl);
      logs_are = zip_push (λ pair log. IsLogBeside pair log) pairs logs (value, other) (value, log) before.logs_are (refl, log_is);
      each_log = subst (All (λ (l : LineState). IsLogOf l.view l.log.entries)) (sym lines_more) (All-push (λ (l : LineState). IsLogOf l.view l.log.entries) lines other before.each_log is);
      forgotten = subst (λ (l : LineState). All (λ o. SeesAtLeast o l) (lines_of (pairs ++ (value, other) ∷ []))) (sym more)
          (subst (All (λ (o : LineState). SeesAtLeast o (joined line other))) (sym lines_more)
          (All-push (λ (o : LineState). SeesAtLeast o (joined line other)) lines other
          (All-weaker (λ (o : LineState). SeesAtLeast o line) (λ (o : LineState). SeesAtLeast o (joined line other))
          (λ o less c. let l = less c in let m = greater_left line.view.seen other.view.seen (channel_index c) each in omega (arith, l, m)) lines before.forgotten)
          (λ c. greater_right line.view.seen other.view.seen (channel_index c) each)));
    }

-- What lines with every share leave, at a moment at which a step tells the histories.
pub record AreTold {T A : Type 0} (first : LineState) (pairs : List (T × LineState)) (seen : List ℕ) (logs : List (T × Vec Entry A)) (histories : List (List Event)) : Type 0 where
  pub recorded : IsRecordedBy (first.log.entries ++ flat_map (λ log. log.1.items) logs) seen histories
  pub closed : AreClosed (all_joined first (lines_of pairs)) histories
  pub in_order : AreInOneOrder first.view.central histories (first ∷ lines_of pairs)

pub absorbed_told : {T A : Type 0} {first : LineState} {pairs : List (T × LineState)} {v : LineView} {seen : List ℕ} {logs : List (T × Vec Entry A)} {c word : ℕ}
    → AreAbsorbed first pairs v seen logs → IsLogOf first.view first.log.entries → (all_joined first (lines_of pairs)).view.shares ≡ first.view.whole → (t : Tells v c word) → AreTold first pairs seen logs t.histories
absorbed_told {first = first} {pairs = pairs} {v = v} {seen = seen} {logs = logs} before is shares t =
    let lines = lines_of pairs in
    let line = all_joined first lines in
    let whole : line.view.shares ≡ line.view.whole = shares ∙ sym (joined_whole first lines) in
    let all : v.shares ≡ v.whole = ap (λ w. w.shares) before.view ∙ (whole ∙ sym (ap (λ w. w.whole) before.view)) in
    let of_view : IsLogOf v line.log.entries = subst (λ (w : LineView). IsLogOf w line.log.entries) (sym before.view) before.log_of in
    let log : first.log.entries ++ flat_map (λ log. log.1.items) logs ≡ line.log.entries = ap (λ l. first.log.entries ++ l) (same_logs pairs logs before.logs_are) ∙ sym (joined_entries first lines) in
    record {
      recorded = rw (log, before.seen_is, ← before.view) (told_whole of_view t all);
      closed = closed_by line t.histories (subst (λ (w : LineView). Knows w line.log.entries t.histories) before.view (knows_by_log of_view t.known)) whole;
      in_order = lines_in_order (first ∷ lines) t (ap (λ w. w.program_orders) before.view ∙ joined_parts (λ l. l.view.program_orders) (λ a b. refl) first lines) first.view.central (ap (λ w. w.central) before.view ∙ joined_central first lines)
          (ap (λ w. w.written) before.view ∙ joined_parts (λ l. l.view.written) (λ a b. refl) first lines) all (All-cons (λ (l : LineState). IsLogOf l.view l.log.entries) first lines is before.each_log);
    }
