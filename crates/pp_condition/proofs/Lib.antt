mod ConditionTextLemmas
mod MeetingLemmas
mod UntilLemmas
