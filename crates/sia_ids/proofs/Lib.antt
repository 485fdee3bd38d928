mod Fronts
mod Sizes
