mod Changes
mod Halves
mod Joining
mod NodePlaces
mod Raising
