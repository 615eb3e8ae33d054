mod Dealt
mod Lists
mod Sent
