pub mod LinesLemmas
pub mod EchoLemmas
pub mod DumpLemmas
pub mod OutputLemmas
pub mod FaultLemmas
