mod Arms
mod Parts
mod Bounds
mod InnerLoops
mod NestBody
mod NestOperators
mod NestNames
mod NestWhole
