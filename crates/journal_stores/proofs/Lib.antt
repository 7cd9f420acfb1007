mod Tearing
