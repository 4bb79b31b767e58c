-- Each end, by what the processor, the answers and the log are.
use Rattle.pp_runner.specs.Types.{Answer, End, Entry, PpState}
use Rattle.std.proofs.Common.{◌≡◌, ℕ, ◌<◌, ◌≤◌, List, [], Option, None, Some, length, arith}
use Rattle.std.specs.Prelude.{IfNone, IfSome, unwrap_or}
use Rattle.pp_processor.specs.NeedAndEffect.{need}
use Rattle.pp_processor.specs.Processor.{Processor}
use Rattle.pp_runner.specs.End.{HasEndNumber, IsEnd, NeedsChannel, NeedsWornChannel, WornWithCause, WasHeld}

-- the end of a worker whose processor is running
end_running : {steps : ℕ} {finish : End} {pp : Processor} {xs : List Answer} {log : List Entry} → pp.state ≡ PpState.Running → HasEndNumber finish → (finish ≡ End.Stopped → ⊥) → ((n : ℕ) → finish ≡ End.Fault n → ⊥)
    → (finish ≡ End.Steps → length xs ≡ steps) → (finish ≡ End.Patience → (length xs < steps) × WasHeld pp log) → (finish ≡ End.Memory → length xs < steps) → (finish ≡ End.Worn → (length xs < steps) × ((channel : ℕ) × NeedsChannel (need pp) channel)) → IsEnd steps finish pp xs log
end_running running numbered not_stopped no_fault all held fewer worn = grind arith

pub end_steps : (steps : ℕ) (pp : Processor) (xs : List Answer) (log : List Entry) → pp.state ≡ PpState.Running → length xs ≡ steps → IsEnd steps End.Steps pp xs log
end_steps steps pp xs log running all = end_running running tt (λ e. absurd cc) (λ n e. absurd cc) (λ e. all) (λ e. absurd cc) (λ e. absurd cc) (λ e. absurd cc)

pub end_patience : (steps : ℕ) (pp : Processor) (xs : List Answer) (log : List Entry) → pp.state ≡ PpState.Running → length xs < steps → WasHeld pp log → IsEnd steps End.Patience pp xs log
end_patience steps pp xs log running fewer held = end_running running tt (λ e. absurd cc) (λ n e. absurd cc) (λ e. absurd cc) (λ e. (fewer, held)) (λ e. absurd cc) (λ e. absurd cc)

pub end_memory : (steps : ℕ) (pp : Processor) (xs : List Answer) (log : List Entry) → pp.state ≡ PpState.Running → length xs < steps → IsEnd steps End.Memory pp xs log
end_memory steps pp xs log running fewer = end_running running tt (λ e. absurd cc) (λ n e. absurd cc) (λ e. absurd cc) (λ e. absurd cc) (λ e. fewer) (λ e. absurd cc)

pub end_worn : (steps : ℕ) (pp : Processor) (xs : List Answer) (log : List Entry) (happened : ℕ → ℕ) → pp.state ≡ PpState.Running → length xs < steps → NeedsWornChannel happened (need pp) → IsEnd steps End.Worn pp xs log
end_worn steps pp xs log happened running fewer needs = end_running running tt (λ e. absurd cc) (λ n e. absurd cc) (λ e. absurd cc) (λ e. absurd cc) (λ e. absurd cc) (λ e. (fewer, (needs.channel, needs.needs)))

-- the end after the last step of the limit: that of a processor at rest, if it is
pub end_at_last : (steps : ℕ) (pp : Processor) (xs : List Answer) (log : List Entry) (rest : Option End) → IfNone rest (pp.state ≡ PpState.Running)
    → IfSome rest (λ finish. (n : ℕ) (ys : List Answer) (other : List Entry) → IsEnd n finish pp ys other) → length xs ≡ steps → IsEnd steps (unwrap_or rest End.Steps) pp xs log
end_at_last steps pp xs log None running ended all = end_steps steps pp xs log running all
end_at_last steps pp xs log (Some finish) running ended all = ended steps xs log

-- a channel at which a worker ended is as worn when more has happened
pub worn_later : (before after : ℕ → ℕ) (finish : End) (pp : Processor) → ((c : ℕ) → before c ≤ after c) → WornWithCause before finish pp → WornWithCause after finish pp
worn_later before after finish pp more caused is = grind arith

-- no worker whose processor is at rest, or which has made all its steps, ended as worn
pub worn_at_rest : (happened : ℕ → ℕ) (finish : End) (pp : Processor) → ((n : ℕ) (ys : List Answer) (other : List Entry) → IsEnd n finish pp ys other) → WornWithCause happened finish pp
worn_at_rest happened finish pp ended is = absurd (omega (arith, ((ended 0 [] []).worn is).0.fewer))

pub worn_at_last : (happened : ℕ → ℕ) (pp : Processor) (rest : Option End) → IfSome rest (λ finish. (n : ℕ) (ys : List Answer) (other : List Entry) → IsEnd n finish pp ys other)
    → WornWithCause happened (unwrap_or rest End.Steps) pp
worn_at_last happened pp None ended = λ is. absurd cc
worn_at_last happened pp (Some finish) ended = worn_at_rest happened finish pp ended

-- nor has it given up
pub patience_at_rest : (finish : End) (pp : Processor) → ((n : ℕ) (ys : List Answer) (other : List Entry) → IsEnd n finish pp ys other) → finish ≡ End.Patience → ⊥
patience_at_rest finish pp ended is = absurd (omega (arith, ((ended 0 [] []).patience is).0.fewer))

pub patience_at_last : (pp : Processor) (rest : Option End) → IfSome rest (λ finish. (n : ℕ) (ys : List Answer) (other : List Entry) → IsEnd n finish pp ys other)
    → unwrap_or rest End.Steps ≡ End.Patience → ⊥
patience_at_last pp None ended = λ is. absurd cc
patience_at_last pp (Some finish) ended = patience_at_rest finish pp ended
