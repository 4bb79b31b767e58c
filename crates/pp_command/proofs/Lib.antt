mod CommandLemmas
mod NamedCommands
mod NumberListLemmas
mod OrderListLemmas
