mod Made
mod Moved
mod Nodes
