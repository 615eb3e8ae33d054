mod BodyBreaches
mod Examples
