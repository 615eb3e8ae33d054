mod Flats
mod FirstLefts
