mod BoundLaws
mod Empty
mod Steps
