pub mod FirstTurned
